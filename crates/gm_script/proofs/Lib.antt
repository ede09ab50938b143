mod AskLines
mod AskWords
mod FormedLines
mod LaidLines
mod Targets
mod TypedLines
