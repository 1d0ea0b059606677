mod Enforceable
mod Enforced
mod PlayedAgain
mod OtherFilters
mod OtherOptions
mod ReadAgain
mod ThreadsAgain
