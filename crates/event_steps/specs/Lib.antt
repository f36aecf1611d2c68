pub mod EventSteps
