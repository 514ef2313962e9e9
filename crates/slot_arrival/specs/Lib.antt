pub mod CodeArrival
