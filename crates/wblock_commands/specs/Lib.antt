pub mod Answers
pub mod Deploying
pub mod Does
pub mod Runs
pub mod AnswersWithoutWords
pub mod Options
pub mod Words
