-- What every call means. A definition stands here for each thing that document 01 tells, in the order in which it tells them; a reader
-- who believes these files and the contracts in src/ has to believe nothing else. Proofs about them are in proofs/.
pub mod Bytes
pub mod Errors
pub mod Answers
pub mod Parts
pub mod DataFrameHeader
pub mod FrameDescriptor
pub mod LogBufferDescriptor
pub mod TermAppender
pub mod BufferClaim
pub mod Rule
pub mod Publication
pub mod ClosedFirst
pub mod DecidingRule
pub mod TermReader
pub mod TermScan
pub mod Image
pub mod FragmentAssembler
pub mod History
pub mod Replay
pub mod Demand
pub mod Corollaries
pub mod BlocksApart
pub mod OneByteMore
pub mod BadFrames
