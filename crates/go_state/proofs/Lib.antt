mod Activity
mod Applying
mod Distances
mod Dues
mod Growing
mod Remainder
mod Replays
mod Scheduling
