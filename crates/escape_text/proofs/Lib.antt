pub mod WriterLemmas
pub mod SinkLemmas
pub mod QuoteLemmas
pub mod ScriptLists
pub mod LineLemmas
pub mod FilterLemmas
pub mod PageLaws
pub mod Many
