-- What the contracts of `table_fields` cite beside `table`: what its readers of a field answer, and bytes written into a lent buffer, and a writer that holds it.
pub mod Reading
pub mod Writing
pub mod Writer
