pub mod TallyLaws
pub mod BehindLaws
pub mod StepLaws
pub mod OpenedLaws
pub mod Steps
pub mod NotedLaws
pub mod FrontLaws
pub mod Determined
