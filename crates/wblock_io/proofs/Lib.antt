mod HoldingLemmas
mod LogLemmas
