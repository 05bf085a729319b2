-- The demands and their terms: what there is to believe.
pub mod Demands
pub mod Terms
-- That answers follow from inputs.
pub mod Determined
pub mod RefusalCases
-- Why the first demand holds.
pub mod RefusedLaws
pub mod EntryRefusals
pub mod ReturnLaws
pub mod CatalogueNumbers
-- Why the second holds.
pub mod Coding
pub mod CodeWays
-- Why the third and the rules hold.
pub mod Sameness
pub mod WholeLists
pub mod WholeCatalogues
pub mod WholeBooks
pub mod Supports
pub mod ExampleRules
pub mod ReadEntries
pub mod Matches
pub mod Comparisons
pub mod OrderClauses
pub mod Agreements
pub mod LoneRules
pub mod LoneSurveys
pub mod CraneRules
pub mod CheckRules
pub mod LimitRules
