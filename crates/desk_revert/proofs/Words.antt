-- The words that proofs of this crate cite, passed on from one place. Declares nothing.
pub use Rattle.desk_rows.proofs.Finding.{is_found}
