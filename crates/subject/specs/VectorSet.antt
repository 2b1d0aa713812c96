-- Words of vectors, which stand in the crate of input classes.
pub use Rattle.input_classes.specs.VectorSet.{Word}
