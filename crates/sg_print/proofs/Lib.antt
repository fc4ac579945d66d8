pub mod Back
pub mod Free
pub mod Heads
pub mod Law
pub mod Leads
pub mod Levels
pub mod Numbers
pub mod Places
pub mod Rows
pub mod RuleBack
pub mod RuleTexts
pub mod Texts
pub use Rattle.sg_parse.proofs as sg_parse
