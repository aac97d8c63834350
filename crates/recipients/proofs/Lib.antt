pub mod RecipientRoll
