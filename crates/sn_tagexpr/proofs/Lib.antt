pub mod EveryTag
