-- Plain definitions
pub mod Lists
pub mod Bits
pub mod Plain
pub mod Words
pub mod Buffers
pub mod Numbers
pub mod Rows
-- How lists of words are read: by places, by parsers, and by formats that also lay them out
pub mod Places
pub mod Parse
pub mod Format
