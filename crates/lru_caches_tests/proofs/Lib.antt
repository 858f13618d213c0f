pub mod FibonacciSteps
