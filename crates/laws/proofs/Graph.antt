-- Graphs, the walk over them, and tiers.
pub mod Chains
pub mod ChainLaws
pub mod SameEdges
pub mod WalkInvariant
pub mod WalkOrder
pub mod WalkFuel
pub mod WalkCalls
pub mod LongestChain
pub mod TierTable
pub mod TierPass
pub mod GraphTiers
