pub mod ExprLaws
pub mod ExprScopes
pub mod ExprTyping
pub mod ExprWords
pub mod Returns
