-- Lines as far as they were made, which no public clause cites.
pub mod Lines
pub mod Triples
