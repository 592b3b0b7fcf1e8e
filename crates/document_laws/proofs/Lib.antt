pub mod EarlierDocuments
mod EventRanges
mod FieldRanges
pub mod LawfulWalk
mod PausesApart
mod OwnRules
mod ProcessRanges
mod WaitRanges
mod Scales
mod SetNames
mod SetsReadable
mod SetsSaid
pub mod SoundDocuments
mod UnsaidReleases
