pub mod HasNoFault
