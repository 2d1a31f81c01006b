mod OneOutcome
mod Rules
mod RulesFound
pub mod ReadSound
pub mod OneMore
pub mod TokenParts
pub mod Gathered
pub mod ReadParts
mod RuleRead
pub mod RefusedTexts
pub mod ReadTexts
