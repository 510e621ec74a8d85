pub mod DecimalLemmas
pub mod HexLemmas
pub mod LinesLemmas
pub mod SpellLemmas
pub mod WordsLemmas
pub mod NamesLemmas
