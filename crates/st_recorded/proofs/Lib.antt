mod Invariant
mod KeptDrawings
mod Posted
mod TicketUses
