-- Laws.
pub mod StartNumbers
pub mod LeastStarts
pub mod FirstStartLaws
pub mod LeastAgreements
