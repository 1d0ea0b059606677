pub mod Bounded
mod Counted
mod Examples
mod FewInstructions
mod FewPolicies
mod FiltersRead
mod InMemory
mod Placed
mod PutTexts
pub mod ReadTexts
mod Replied
mod Said
mod Slashes
mod Standing
pub mod Startable
mod StartedOnce
pub mod Ungranted
