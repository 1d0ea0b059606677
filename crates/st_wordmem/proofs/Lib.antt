mod LoadedWords
mod NextThreads
mod ScriptStores
mod SeatStates
mod WordSteps
