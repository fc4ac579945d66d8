pub use Rattle.test_tables.specs as test_tables
