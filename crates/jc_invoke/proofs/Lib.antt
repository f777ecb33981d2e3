mod Common
mod Runs
mod RunEach
mod RoundAsked
mod InvokeRound
mod KeyResults
mod Invoked
