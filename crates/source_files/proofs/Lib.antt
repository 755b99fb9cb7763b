pub mod Sources
pub mod Names
pub mod Readers
pub mod Depths
pub mod Firsts
pub use Rattle.limbo_parser.proofs as limbo_parser_lemmas
