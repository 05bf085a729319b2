-- Definitions.
pub mod Betters
pub mod Accepting
pub mod Meetings
-- Laws over them.
pub mod BetterLaws
pub mod TestFollowLaws
pub mod AcceptedLaws
pub mod AcceptedSteps
pub mod MeetingLaws
pub mod FirstBetterLaws
