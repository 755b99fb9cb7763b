mod LossyLemmas
mod NumberLemmas
