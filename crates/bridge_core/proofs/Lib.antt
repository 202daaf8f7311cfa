pub mod Readies
pub mod Handled
pub mod Shares
pub mod Counted
pub mod Told
pub mod Sized
pub mod PartsLaws
pub mod StepLaws
pub mod RunLaws
pub mod OnStreams
pub mod AskedAgain
pub mod RoutedLists
pub mod Chosen
pub mod Carried
pub mod LedBack
pub mod Octets
pub mod Telling
pub mod MixesSent
pub mod MixesHeard
pub mod WholeRunLaws
pub mod LaneCount
pub mod EveryLaneLaws
mod DeskCalls
mod BackAndAgain
