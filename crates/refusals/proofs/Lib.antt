-- What a call's refusal says of its rule.
pub mod Laws
pub mod Twos
