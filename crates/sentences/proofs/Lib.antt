mod QuotingLemmas
mod KeyLemmas
mod RecordLemmas
mod WorkedSentences
