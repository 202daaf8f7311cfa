pub mod WholeDivision
