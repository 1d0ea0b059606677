mod Examples
mod FirstFaults
mod LastPolicy
mod RepliesRead
