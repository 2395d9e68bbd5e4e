mod Rows
pub mod ChildLists
pub mod Rebuilt
pub mod OneLevel
pub mod OneMore
pub mod Paths
pub mod FamiliesAfter
pub mod Walks
pub mod ChainLookups
pub mod Floors
pub mod FamiliesAt
pub mod RootKinds
