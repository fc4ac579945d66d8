pub mod OneLock
