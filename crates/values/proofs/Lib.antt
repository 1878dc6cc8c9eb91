mod SchemaLemmas
mod WorkedLimits
