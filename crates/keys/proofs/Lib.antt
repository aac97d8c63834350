pub mod Walking
pub mod ValidFields
pub mod Counting
pub mod AcceptedGossip
pub mod GossipFields
pub mod GoodKeys
pub mod Worked
