-- What the proof of check over bytes needs: that too many words are refused.
pub mod Refused
pub mod Room
