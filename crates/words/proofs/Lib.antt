mod WordsLemmas
mod WorkedWords
