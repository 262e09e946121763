pub mod BoxDeclResidual
