pub mod Facts
mod Converted
mod Lexemes
mod Names
mod Passes
mod ItemTurns
mod MemberTurns
mod NamedMembers
mod NumberTexts
mod RowLists
mod Starts
mod Passed
mod Refusals
mod FirstTokens
