pub mod Inside
pub mod Laws
pub mod TimerFacts
pub mod TimerObject
pub mod TimerRow
pub mod TimerSound
pub mod TimerTable
