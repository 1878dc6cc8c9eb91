mod ClientsLemmas
mod TranscriptLemmas
mod RunLemmas
