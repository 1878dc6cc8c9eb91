mod JournaledLemmas
mod SpelledLemmas
