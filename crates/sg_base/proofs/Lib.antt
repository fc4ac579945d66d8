pub mod ReadBack
pub mod RoomLess
pub mod SameParts
pub mod SameValues
pub mod Texts
