mod InputAnswers
mod Reading
mod Telling
