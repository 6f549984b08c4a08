mod OwnerLists
mod Names
mod Whole
