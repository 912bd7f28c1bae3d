-- Which card holds ("R-9" in document 02): the walked frames cut into messages, and of those that are cards of one find, for each field the last that has it.
-- Read Messages first, then Holding; Theorems has what is proved of them, as statements, and Histories that on a log which calls made the messages are the history's.
pub mod Messages
pub mod Holding
pub mod Theorems
pub mod Histories
pub mod Within
