pub mod ExactLemmas
pub mod PieceLemmas
