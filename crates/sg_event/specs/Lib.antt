pub mod EventFacts
pub mod EventModel
pub mod EventRow
pub mod EventSound
pub mod EventTable
pub mod Inside
pub mod Laws
