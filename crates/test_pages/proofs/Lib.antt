pub mod MayAsk
