pub mod Answered
pub mod Due
pub mod Words
pub mod WhatIsDone
pub mod Occur
pub mod Resets
